pub mod Classes
pub mod Display
pub mod Kinds
pub mod Label
pub mod Words
pub mod laws
pub mod steps
