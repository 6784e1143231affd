pub mod Hubs
pub mod Names
pub mod Passes
pub mod Calls
pub mod Meetings
