pub mod Several
pub mod Charging
pub mod Locking
