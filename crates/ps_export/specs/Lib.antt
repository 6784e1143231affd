pub mod Details
pub mod Export
pub mod Lines
pub mod Sheets
pub mod Spreads
pub mod Written
