pub mod Execution
pub mod Records
pub mod Bytes
pub mod Read
pub mod Views
pub mod Means
