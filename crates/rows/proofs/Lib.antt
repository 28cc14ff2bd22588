pub mod BlockLaws
pub mod Shares
pub mod Content
