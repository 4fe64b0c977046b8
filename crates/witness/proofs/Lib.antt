pub mod Bytes
pub mod Joined
pub mod Records
pub mod Within
pub mod Drafts
