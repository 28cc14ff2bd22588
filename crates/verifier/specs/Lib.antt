pub mod Entry
pub mod Complete
