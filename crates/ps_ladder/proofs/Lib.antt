pub mod MapLemmas
pub mod TableLemmas
pub mod SumLemmas
