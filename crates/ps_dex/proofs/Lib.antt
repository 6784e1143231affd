pub mod Holds
pub mod FitLemmas
pub mod TableLemmas
pub mod FigureLemmas
pub mod NewLemmas
