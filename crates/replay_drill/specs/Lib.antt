pub mod Draws
pub mod Drills
pub mod Fights
pub mod Lines
pub mod Messages
pub mod Plain
pub mod Tallies
