pub mod ToldLemmas
pub mod PassLemmas
pub mod CatchLemmas
pub mod MeetLemmas
