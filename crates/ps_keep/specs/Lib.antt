pub mod Keepers
pub mod Order
pub mod Results
pub mod Standings
