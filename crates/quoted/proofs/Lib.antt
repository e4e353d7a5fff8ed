pub mod Turns
pub mod Strings
pub mod Texts
pub mod Comments
pub mod Unique
pub mod Wrong
