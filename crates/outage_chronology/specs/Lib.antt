pub mod Outages
pub mod Standing
pub mod Masks
pub mod Thresholds
pub mod Kept
pub mod WorkedRows
