pub mod Open
pub mod Pairs
pub mod laws
