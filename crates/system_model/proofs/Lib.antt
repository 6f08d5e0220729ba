pub mod HourLists
pub mod DraftSteps
pub mod SystemReads
