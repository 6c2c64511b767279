pub mod Moving
pub mod Rooms
