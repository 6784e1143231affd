pub mod DexRows
pub mod ConfigRows
pub mod FormatRows
pub mod RulesetRows
pub mod DrillRows
pub mod Summary
pub mod Asked
pub mod Shows
