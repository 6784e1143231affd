pub mod FirstLemmas
pub mod IndexLemmas
pub mod MessageLemmas
pub mod PieceLemmas
pub mod ReadLemmas
pub mod EventLemmas
pub mod ShortLemmas
