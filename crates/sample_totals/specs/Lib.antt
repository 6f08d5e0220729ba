pub mod CutRows
pub mod Estimates
pub mod Recorders
pub mod Results
pub mod Totals
pub mod WorkedRows
