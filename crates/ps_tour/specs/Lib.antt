pub mod Brackets
pub mod Laws
