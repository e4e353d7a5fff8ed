pub mod Runs
pub mod Texts
pub mod Whole
pub mod Unique
pub mod Wrong
