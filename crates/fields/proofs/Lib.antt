pub mod Rows
pub mod Chunks
pub mod Relations
pub mod Headers
