pub mod Display
pub mod Units
