pub mod Bounds
pub mod Unique
pub mod Wrong
