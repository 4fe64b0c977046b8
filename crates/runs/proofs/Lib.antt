pub mod Steps
pub mod Shown
pub mod Areas
