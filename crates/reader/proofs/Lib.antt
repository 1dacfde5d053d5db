pub mod Walking
pub mod Exact
