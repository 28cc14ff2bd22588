pub mod Laws
pub mod Complete
pub mod Written
