pub mod Earned
pub mod Views
pub mod Promise
pub mod Marks
