mod WantLemmas
mod ChoiceLemmas
mod RequestLemmas
