pub mod Sums
pub mod Masks
pub mod Network
pub mod Dispatch
pub mod Cut
