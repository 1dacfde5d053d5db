pub mod Searches
pub mod Lookups
