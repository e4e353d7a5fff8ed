pub mod Escape
pub mod ReadBack
pub mod Refusals
pub mod Tile
