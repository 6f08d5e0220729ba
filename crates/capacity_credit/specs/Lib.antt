pub mod Measures
pub mod Bracket
pub mod Search
