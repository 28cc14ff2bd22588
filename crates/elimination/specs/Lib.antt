pub mod Elimination
pub mod Rank
pub mod Steps
