pub mod SumSteps
pub mod OrderLemmas
pub mod RowLemmas
pub mod BestLemmas
pub mod UniqueLemmas
