pub mod LawLemmas
mod OrderLemmas
pub mod RoundLemmas
