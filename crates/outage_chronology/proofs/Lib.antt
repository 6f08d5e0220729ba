pub mod Passing
pub mod MaskSteps
pub mod RatesByKind
pub mod Laws
pub mod ThresholdLists
pub mod KeptLemmas
