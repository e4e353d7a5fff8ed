pub mod Shown
pub mod Called
pub mod Wrong
