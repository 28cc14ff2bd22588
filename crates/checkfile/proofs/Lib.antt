pub mod Said
pub mod Rooms
pub mod Joined
pub mod Judged
pub mod Text
pub mod Decimals
