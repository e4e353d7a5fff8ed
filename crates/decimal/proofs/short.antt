pub mod Walks
pub mod Told
pub mod Unique
pub mod Wrong
