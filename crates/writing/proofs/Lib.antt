pub mod Digit
pub mod Decimals
pub mod Writes
pub mod ReadBack
pub mod Unique
pub mod Wrong
