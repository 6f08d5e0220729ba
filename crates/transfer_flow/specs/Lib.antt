pub mod Flow
pub mod Reach
pub mod Draw
pub mod Spread
