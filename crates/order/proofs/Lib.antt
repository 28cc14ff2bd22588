pub mod Bits
pub mod First
pub mod Distinct
pub mod Told
pub mod Examples
