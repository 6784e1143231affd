pub mod Deliveries
pub mod Posts
pub mod Tickets
pub mod Views
