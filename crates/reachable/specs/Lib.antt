pub mod Checked
pub mod Places
pub mod Entries
pub mod Order
pub mod Invariant
pub mod Laws
