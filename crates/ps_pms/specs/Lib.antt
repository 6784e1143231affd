pub mod Records
pub mod Lookups
pub mod Refusals
pub mod Changes
