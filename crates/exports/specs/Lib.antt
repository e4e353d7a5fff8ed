pub mod Duration
pub mod Number
pub mod Packed
pub mod Reading
pub mod String
pub mod Token
pub mod Utf8
pub mod laws
