pub mod Ranges
pub mod Joining
pub mod Shares
pub mod History
pub mod Machine
pub mod Cores
