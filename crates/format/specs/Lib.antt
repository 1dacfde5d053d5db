pub mod Numbers
pub mod Fields
pub mod Records
pub mod Sound
pub mod Promises
