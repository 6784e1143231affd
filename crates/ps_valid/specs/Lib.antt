pub mod Verdicts
pub mod MoveRows
pub mod Members
pub mod SetRows
pub mod TeamRows
pub mod Ready
