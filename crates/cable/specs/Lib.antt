pub mod BothWays
pub mod Channels
pub mod Delay
pub mod Disturb
pub mod Passing
pub mod Rising
pub mod Turnings
