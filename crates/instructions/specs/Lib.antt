pub mod Kinds
pub mod Effects
