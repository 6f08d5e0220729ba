pub mod Energy
pub mod Holdings
pub mod WorkedRows
