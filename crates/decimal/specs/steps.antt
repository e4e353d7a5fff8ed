pub mod Scale
pub mod Short
