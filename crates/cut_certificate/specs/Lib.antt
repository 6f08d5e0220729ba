pub mod Chain
pub mod Least
pub mod Parts
