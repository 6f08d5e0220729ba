pub mod MadeSystem
pub mod PlainTables
pub mod MadeTables
pub mod WorkedRows
