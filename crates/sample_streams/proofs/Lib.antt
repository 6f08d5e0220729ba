pub mod HourLaws
pub mod WordLaws
