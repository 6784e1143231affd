pub mod ConnLemmas
pub mod SeatLemmas
mod SameLemmas
