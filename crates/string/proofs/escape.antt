pub mod Escapes
pub mod Given
pub mod Answers
pub mod Unique
pub mod Wrong
