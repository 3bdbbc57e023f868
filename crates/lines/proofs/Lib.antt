pub mod Accepting
pub mod Digits
pub mod FieldLists
pub mod Fields
pub mod Readback
pub mod Rests
