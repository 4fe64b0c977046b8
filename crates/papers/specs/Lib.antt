pub mod Sittings
pub mod Worked
