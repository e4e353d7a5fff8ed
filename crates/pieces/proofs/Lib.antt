pub mod Tiled
pub mod Order
pub mod Gaps
pub mod Accounted
pub mod Calls
