pub mod Entry
pub mod Solved
