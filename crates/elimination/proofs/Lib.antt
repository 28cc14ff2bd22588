pub mod First
pub mod Dependence
pub mod Words
pub mod Grids
pub mod Clearing
pub mod Simulation
pub mod Leaning
pub mod Examples
