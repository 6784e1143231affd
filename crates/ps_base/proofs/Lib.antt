pub mod ByIdLemmas
pub mod CutLemmas
pub mod IdLemmas
pub mod NameLemmas
pub mod NumberLemmas
