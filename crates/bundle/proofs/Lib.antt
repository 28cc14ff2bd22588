pub mod Places
pub mod Faithful
pub mod Steps
pub mod Examples
