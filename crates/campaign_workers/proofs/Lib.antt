pub mod WorkLaws
pub mod CrewLaws
pub mod StandLaws
pub mod RoundLaws
pub mod StudyLaws
