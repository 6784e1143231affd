pub mod Lines
pub mod Named
pub mod Parts
pub mod Roles
pub mod Rows
pub mod Words
