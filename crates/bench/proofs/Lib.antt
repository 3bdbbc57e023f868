pub mod Kept
pub mod Refused
pub mod Served
