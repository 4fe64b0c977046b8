pub mod Evaluations
pub mod LoadCounts
pub mod Rows
