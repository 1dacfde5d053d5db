pub mod Filling
pub mod Latest
pub mod Windowing
