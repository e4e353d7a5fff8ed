pub mod Ways
pub mod Choice
pub mod Below
pub mod Tests
pub mod Lists
pub mod Stores
pub mod One
