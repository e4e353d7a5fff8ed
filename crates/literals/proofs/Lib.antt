pub mod Backquoted
