pub mod Unique
pub mod Wrong
