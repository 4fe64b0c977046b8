pub mod Progress
pub mod Rebuild
pub mod Views
