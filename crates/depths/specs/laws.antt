pub mod Pairs
pub mod Modes
pub mod Rows
pub mod Depths
