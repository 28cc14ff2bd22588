pub mod Fine
pub mod Weighed
pub mod Solved
