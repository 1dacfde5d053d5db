pub mod Tabs
pub mod Programs
