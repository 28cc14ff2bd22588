pub mod CheckZero
pub mod Slices
pub mod Steps
