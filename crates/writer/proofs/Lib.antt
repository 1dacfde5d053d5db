pub mod Rebuilding
pub mod Reading
pub mod Room
