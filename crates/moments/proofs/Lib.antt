pub mod Pass
pub mod Serve
