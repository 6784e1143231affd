pub mod Scenes
pub mod Courses
pub mod Told
pub mod Fighters
pub mod Strikes
pub mod Hits
pub mod Amounts
pub mod Shares
