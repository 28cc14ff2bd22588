pub mod Fields
pub mod Outcome
pub mod Laws
pub mod Examples
