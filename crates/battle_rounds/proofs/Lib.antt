pub mod RoundLemmas
pub mod ListLemmas
pub mod FigureLemmas
