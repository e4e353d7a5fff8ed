pub mod Pieces
pub mod laws
