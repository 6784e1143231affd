pub mod SetupLemmas
pub mod CheckLemmas
pub mod ConvertLemmas
pub mod FieldLemmas
pub mod SeedLemmas
pub mod RoomLemmas
