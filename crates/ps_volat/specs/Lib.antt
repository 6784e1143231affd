pub mod Covering
pub mod Answering
