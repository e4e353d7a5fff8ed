pub mod Listing
pub mod laws
pub mod steps
