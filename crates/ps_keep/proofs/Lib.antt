pub mod NotedLemmas
pub mod StandingLemmas
