pub mod LineCalls
pub mod LineTexts
pub mod Asks
pub mod LineEnds
pub mod Together
pub mod Ends
