pub mod Refusals
pub mod Fields
pub mod Views
pub mod Rows
pub mod Places
pub mod Records
pub mod Areas
