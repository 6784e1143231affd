pub mod Answers
pub mod Indices
pub mod Calling
pub mod Changing
pub mod Learning
pub mod Disabling
pub mod Copies
