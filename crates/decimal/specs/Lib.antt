pub mod Grammar
pub mod Value
pub mod laws
pub mod steps
