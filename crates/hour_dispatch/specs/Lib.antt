pub mod Ample
pub mod Balance
pub mod Stages
pub mod Settled
