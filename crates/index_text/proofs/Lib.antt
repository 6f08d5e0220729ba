pub mod HourIndexLemmas
