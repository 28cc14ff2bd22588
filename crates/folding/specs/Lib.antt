pub mod Weights
pub mod Steps
