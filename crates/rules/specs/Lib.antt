pub mod Rules
pub mod Entries
pub mod Ready
pub mod Tests
pub mod Changes
pub mod Act
