pub mod MapLemmas
pub mod NumberLemmas
pub mod IndexLemmas
pub mod FindLemmas
