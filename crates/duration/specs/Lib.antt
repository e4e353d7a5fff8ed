pub mod Display
pub mod Duration
pub mod Spans
pub mod Unit
pub mod Units
pub mod laws
pub mod steps
