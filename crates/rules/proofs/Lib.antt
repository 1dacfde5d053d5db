pub mod Places
pub mod Exactness
pub mod Racing
pub mod Keeping
