pub mod Files
pub mod Answered
