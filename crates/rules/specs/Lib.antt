pub mod Rules
pub mod Verdicts
pub mod Activity
pub mod Promises
