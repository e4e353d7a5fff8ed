pub mod Cases
pub mod Listing
