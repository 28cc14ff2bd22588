pub mod Words
pub mod Lent
pub mod Concat
pub mod Count
pub mod Rows
pub mod Xor
