pub mod Draw
pub mod HourDraws
pub mod Words
pub mod WorkedRows
