pub mod Counts
pub mod Kept
pub mod Routes
pub mod Sessions
