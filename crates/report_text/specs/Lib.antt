pub mod CheckText
pub mod FaultText
pub mod GateText
pub mod TotalsText
