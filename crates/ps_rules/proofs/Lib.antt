mod ListLemmas
mod IndexLemmas
mod MarkLemmas
mod TallyLemmas
mod StackLemmas
mod StepLemmas
