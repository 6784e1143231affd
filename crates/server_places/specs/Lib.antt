pub mod Sites
pub mod Rooms
pub mod Halls
pub mod Tellings
pub mod StoryLaws
pub mod RoomLaws
pub mod HallLaws
