pub mod Runs
pub mod Edges
pub mod Same
pub mod Stands
pub mod Greedy
pub mod Unique
pub mod Wrong
