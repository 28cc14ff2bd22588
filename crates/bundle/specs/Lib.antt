pub mod Bundle
pub mod Reading
pub mod Written
