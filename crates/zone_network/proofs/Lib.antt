pub mod MaskLemmas
pub mod SumLemmas
pub mod FlowLemmas
pub mod Worked
pub mod LinkLists
