pub mod CharLemmas
pub mod CleanLemmas
mod ClientLemmas
pub mod PartLemmas
