pub mod Steps
pub mod Readings
pub mod Join
pub mod Calls
