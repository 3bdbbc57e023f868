pub mod State
pub mod Script
