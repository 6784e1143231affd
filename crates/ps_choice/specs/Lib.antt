pub mod Wants
pub mod Orders
pub mod Resolved
pub mod Shown
pub mod Requests
