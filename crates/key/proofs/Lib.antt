pub mod Sized
pub mod Codes
pub mod Fine
pub mod Checked
pub mod Leans
