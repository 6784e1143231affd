pub mod Gains
pub mod Ratings
pub mod Waiting
pub mod Tables
