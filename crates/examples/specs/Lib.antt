pub mod Readings
pub mod Starred
pub mod Target
pub mod Lending
pub mod Driving
