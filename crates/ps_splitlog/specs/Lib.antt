pub mod Boxes
pub mod Entries
pub mod Firsts
pub mod Indices
pub mod Lines
pub mod Pieces
pub mod Reads
pub mod Shorts
