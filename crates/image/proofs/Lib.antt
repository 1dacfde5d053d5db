pub mod Finding
pub mod Placing
pub mod Cutting
pub mod Composing
pub mod Gathering
pub mod Backs
