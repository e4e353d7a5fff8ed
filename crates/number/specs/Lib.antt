pub mod Integer
pub mod Number
pub mod Signed
pub mod White
pub mod laws
