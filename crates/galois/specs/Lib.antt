pub mod Field
pub mod Polynomial
pub mod Rules
pub mod Inverse
