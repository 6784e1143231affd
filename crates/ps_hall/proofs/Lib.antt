mod FormatLemmas
mod JsonLemmas
pub mod KeptLemmas
pub mod LadderLemmas
pub mod LookupLemmas
pub mod PackLemmas
pub mod StartLemmas
pub mod ApplyLemmas
pub mod PrepareLemmas
pub mod AnswerLemmas
pub mod GameLemmas
pub mod ComingLemmas
pub mod MatchLemmas
pub mod PullLemmas
mod PieceLemmas
pub mod StepLemmas
mod SearchTeamLemmas
