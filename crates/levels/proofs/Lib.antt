pub mod Levelling
pub mod Reaching
pub mod Meeting
