pub mod Classes
pub mod Unique
pub mod Wrong
