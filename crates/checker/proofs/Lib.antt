mod Closures
pub mod Evaluations
pub mod Loops
mod RowSets
