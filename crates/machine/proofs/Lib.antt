pub mod Orders
pub mod Cores
pub mod Closing
pub mod Answering
pub mod Outcomes
pub mod StartCells
