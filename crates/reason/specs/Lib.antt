pub mod Reason
pub mod Conditions
pub mod laws
pub mod steps
