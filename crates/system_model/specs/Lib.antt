pub mod Rates
pub mod Components
pub mod System
pub mod Parts
