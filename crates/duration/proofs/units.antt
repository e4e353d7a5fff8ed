pub mod Parts
pub mod Steps
pub mod Spelling
pub mod Unique
pub mod Wrong
