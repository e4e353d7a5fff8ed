pub mod Munch
pub mod Word
pub mod laws
pub mod steps
