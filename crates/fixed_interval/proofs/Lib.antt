pub mod Rounds
pub mod Bounds
pub mod PlacesLemmas
pub mod ShareLaws
