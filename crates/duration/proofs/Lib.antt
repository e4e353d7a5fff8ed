pub mod Taken
pub mod Given
pub mod Exact
pub mod Back
pub mod Calls
pub mod Bounds
pub mod Unique
pub mod Wrong
