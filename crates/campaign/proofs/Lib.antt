pub mod ApartLaws
pub mod PassLaws
