pub mod Words
pub mod Lent
pub mod Count
pub mod Rows
