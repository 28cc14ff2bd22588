pub mod Words
pub mod Rows
pub mod Files
pub mod Bounds
pub mod Rest
