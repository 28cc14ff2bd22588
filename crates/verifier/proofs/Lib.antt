pub mod Fine
pub mod Sides
pub mod Judged
pub mod Completeness
