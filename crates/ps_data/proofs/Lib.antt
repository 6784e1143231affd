pub mod Deeper
pub mod Each
pub mod Items
pub mod TableLemmas
pub mod Texts
