pub mod Numbering
pub mod Order
pub mod Bounds
