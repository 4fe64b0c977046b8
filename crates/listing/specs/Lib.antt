pub mod Accesses
pub mod Instructions
pub mod Origins
pub mod Refusals
