pub mod HandedOut
pub mod Rising
pub mod Rotation
pub mod Striking
pub mod Turned
