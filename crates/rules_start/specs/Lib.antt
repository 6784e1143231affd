pub mod Fits
pub mod Starts
