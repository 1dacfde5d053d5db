pub mod Steps
pub mod Walks
pub mod Accepting
pub mod Promises
