pub mod Rooms
pub mod Users
pub mod Fresh
pub mod Reading
pub mod Ranges
pub mod Standard
pub mod Seeds
