pub mod Format
pub mod Rest
pub mod Texts
pub mod Accepted
