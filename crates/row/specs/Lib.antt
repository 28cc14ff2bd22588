pub mod Lists
pub mod Elements
pub mod Polynomial
pub mod Step
pub mod Lent
