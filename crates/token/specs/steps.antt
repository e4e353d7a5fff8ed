pub mod Padded
pub mod WordRows
