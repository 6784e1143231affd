pub mod KeepLemmas
pub mod ChoiceLemmas
pub mod CloseLemmas
pub mod OrderLemmas
pub mod OpeningLemmas
