pub mod Numeral
pub mod Faults
pub mod Reading
pub mod Scanning
pub mod DecimalText
