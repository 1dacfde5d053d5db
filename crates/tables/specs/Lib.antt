pub mod Kinds
pub mod Stations
pub mod Places
