pub mod Lines
pub mod Refusing
