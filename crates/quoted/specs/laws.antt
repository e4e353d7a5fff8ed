pub mod Quoted
pub mod Texts
