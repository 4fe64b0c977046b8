pub mod StepsFor
pub mod Rebuilds
pub mod Rebuild
pub mod Complete
