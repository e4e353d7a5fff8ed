pub mod Classes
pub mod Edge
pub mod Inside
pub mod Language
pub mod Runs
pub mod Separated
pub mod Sign
pub mod Text
