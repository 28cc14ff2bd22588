pub mod Union
pub mod Entry
pub mod Laws
pub mod Steps
