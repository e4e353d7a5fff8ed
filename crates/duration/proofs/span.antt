pub mod Round
pub mod Fields
pub mod Spans
pub mod Unique
pub mod Wrong
