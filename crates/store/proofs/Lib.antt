pub mod Stores
pub mod Fills
pub mod Rooms
