pub mod PlainLemmas
pub mod StandLemmas
pub mod IdLemmas
pub mod HallLemmas
pub mod NumberLemmas
