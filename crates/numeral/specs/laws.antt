pub mod Numeral
pub mod Texts
