pub mod Fits
pub mod Takes
