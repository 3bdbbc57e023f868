pub mod Calls
pub mod Clock
pub mod Inputs
pub mod Outputs
pub mod Sound
pub mod State
