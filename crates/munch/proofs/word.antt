pub mod Words
pub mod Fits
pub mod Unique
pub mod Wrong
