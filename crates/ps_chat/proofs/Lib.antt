pub mod FindLemmas
pub mod IndexLemmas
pub mod StepLemmas
pub mod ToldLemmas
