pub mod Answers
pub mod Code
pub mod Encode
pub mod Table
pub mod Text
pub mod Writing
pub mod laws
pub mod steps
