pub mod TableText
pub mod IndexText
pub mod CreditText
