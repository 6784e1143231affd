pub mod Tellings
pub mod Turns
pub mod Passes
pub mod Catches
pub mod Meetings
