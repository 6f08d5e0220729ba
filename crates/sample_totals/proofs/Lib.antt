pub mod Counting
pub mod CutRowsLemmas
pub mod EstimatesLemmas
pub mod Laws
pub mod ResultsLemmas
pub mod TotalsLemmas
