pub mod Puts
pub mod Few
pub mod Lexemes
pub mod Laws
pub mod Cases
pub mod Unique
pub mod Wrong
