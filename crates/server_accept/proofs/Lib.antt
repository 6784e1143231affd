pub mod JournalLemmas
pub mod ServerLemmas
