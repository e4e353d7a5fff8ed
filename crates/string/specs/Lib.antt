pub mod Escape
pub mod Letters
pub mod Literal
pub mod Tile
pub mod Tiles
pub mod laws
pub mod steps
