pub mod ByteLemmas
pub mod TextLemmas
pub mod SoLemmas
pub mod BarLemmas
pub mod MessageLemmas
pub mod FewLemmas
pub mod NameLemmas
pub mod ReadLemmas
