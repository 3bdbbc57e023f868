pub mod Ends
pub mod Moment
pub mod View
