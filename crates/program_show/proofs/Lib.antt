pub mod SecretLemmas
pub mod ShowLemmas
