pub mod Tally
pub mod Pass
