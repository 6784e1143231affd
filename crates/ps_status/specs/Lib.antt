pub mod Seconds
pub mod Afflicting
pub mod Confusing
pub mod Boosting
pub mod Clearing
pub mod Healing
