pub mod WayLemmas
pub mod MoveLemmas
pub mod DrawLemmas
pub mod SpreadLemmas
pub mod Laws
