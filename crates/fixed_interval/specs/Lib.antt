pub mod Rounding
pub mod Enclosure
pub mod Places
