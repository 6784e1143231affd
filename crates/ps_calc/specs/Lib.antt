pub mod Stats
pub mod Stages
pub mod Damage
pub mod Chances
pub mod Health
pub mod Draws
