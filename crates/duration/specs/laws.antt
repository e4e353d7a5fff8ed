pub mod Display
pub mod Exact
pub mod Refusals
pub mod Spelling
