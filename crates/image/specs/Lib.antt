pub mod Marks
pub mod Cells
pub mod Images
pub mod Parsing
pub mod Promises
