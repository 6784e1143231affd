pub mod Ranks
pub mod Can
pub mod Reading
pub mod ShownNames
pub mod Faults
pub mod Defaults
