pub mod Words
pub mod Views
pub mod Steps
pub mod Kept
pub mod Seated
