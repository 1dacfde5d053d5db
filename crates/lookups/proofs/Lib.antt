pub mod Searching
pub mod Sums
pub mod Listing
