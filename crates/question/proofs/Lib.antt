pub mod Cells
pub mod Codes
pub mod Sound
pub mod Drafts
