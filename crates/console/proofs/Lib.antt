pub mod Digits
pub mod LineByLine
