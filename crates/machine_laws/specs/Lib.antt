pub mod Worked
pub mod Causes
