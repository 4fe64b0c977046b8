pub mod Searches
pub mod Chains
