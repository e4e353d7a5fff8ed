pub mod Leads
pub mod Lent
