pub mod Canon
pub mod Fields
pub mod Forms
pub mod Packed
pub mod Ranges
pub mod Scan
