pub mod AddLaws
pub mod AskLaws
pub mod LineLaws
pub mod CallLaws
pub mod TogetherLaws
pub mod EndLaws
pub mod Crossing
pub mod Laws
