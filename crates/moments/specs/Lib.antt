pub mod Chips
pub mod Rules
pub mod Ranks
