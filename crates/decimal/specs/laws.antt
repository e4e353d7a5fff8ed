pub mod Decimal
pub mod Rounding
pub mod Spelling
