pub mod SideLaws
pub mod SearchLaws
pub mod CertainLaws
