pub mod Terms
pub mod Axioms
pub mod Fixed
pub mod Tests
pub mod Verdict
pub mod Rows
pub mod Views
pub mod Positions
