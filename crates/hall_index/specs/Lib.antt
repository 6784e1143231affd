pub mod Numbered
pub mod IdIndices
pub mod Finds
