pub mod GrammarLemmas
pub mod LineForms
pub mod PlainLemmas
pub mod PlainTexts
pub mod TallyLemmas
pub mod TeamLemmas
