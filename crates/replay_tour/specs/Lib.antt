pub mod Entrants
pub mod Matches
pub mod Results
pub mod Tours
