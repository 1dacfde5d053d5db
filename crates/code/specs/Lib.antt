pub mod Opcodes
pub mod Registers
pub mod Words
pub mod Rules
pub mod Bounds
pub mod Stores
pub mod Promises
