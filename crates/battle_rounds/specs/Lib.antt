pub mod Bouts
pub mod Refusals
pub mod Rounds
pub mod Asked
pub mod Casts
pub mod Fights
