pub mod Counts
pub mod Registers
pub mod Ones
pub mod Calls
