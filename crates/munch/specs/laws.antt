pub mod Modes
pub mod Rows
pub mod Marks
pub mod Step
pub mod Text
