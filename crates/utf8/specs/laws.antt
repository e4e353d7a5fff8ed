pub mod Ascii
pub mod Bounds
pub mod Characters
pub mod Encode
pub mod Refusals
pub mod Texts
