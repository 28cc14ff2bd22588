pub mod Layout
pub mod Tests
pub mod Steps
