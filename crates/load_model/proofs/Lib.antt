pub mod HourLaws
pub mod PeakLaws
