pub mod Assertions
pub mod ByConn
pub mod Ranks
pub mod Records
pub mod Refusals
pub mod Seats
pub mod Steps
