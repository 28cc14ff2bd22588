pub mod Words
pub mod Bytes
pub mod Filled
