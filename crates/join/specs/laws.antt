pub mod Calls
pub mod Join
