pub mod States
pub mod Grid
pub mod Table
pub mod Refusal
pub mod Fleet
