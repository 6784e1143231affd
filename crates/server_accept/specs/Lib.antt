pub mod AlwaysWords
pub mod Servers
pub mod Journals
