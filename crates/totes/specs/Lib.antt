pub mod Bits
pub mod Noise
pub mod Outcome
pub mod Scanning
pub mod Times
pub mod Words
