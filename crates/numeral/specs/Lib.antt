pub mod Numeral
pub mod Texts
pub mod laws
