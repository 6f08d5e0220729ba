pub mod Pool
pub mod Index
pub mod Kept
pub mod Enclosed
