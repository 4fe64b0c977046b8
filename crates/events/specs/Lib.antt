pub mod Events
pub mod Sources
pub mod Views
