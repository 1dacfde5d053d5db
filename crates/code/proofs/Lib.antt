pub mod Ranges
pub mod Firsts
pub mod Decoding
pub mod Storing
