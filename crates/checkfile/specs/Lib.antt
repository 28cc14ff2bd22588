pub mod Checking
pub mod Judged
pub mod Line
