mod Words
mod Copying
mod Carrying
mod Waves
mod Sender
mod Receiver
mod Link
mod InTime
mod Conditions
mod Ends
mod Directions
mod Steps
mod InOrder
pub mod Faithful
pub mod NothingLost
pub mod Serving
mod Hosting
