pub mod Rounds
pub mod Studies
pub mod Working
pub mod Crews
pub mod Standing
