pub mod Cleans
pub mod Controls
pub mod Ends
pub mod Items
pub mod Laws
pub mod Limits
pub mod Sayings
pub mod Scripts
