pub mod FileLemmas
pub mod FitLemmas
pub mod StandardFile
