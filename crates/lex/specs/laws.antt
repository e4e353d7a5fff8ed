pub mod Bounds
pub mod Refusals
pub mod Entries
pub mod Before
