pub mod Bits
pub mod Receive
pub mod Time
pub mod Transmit
