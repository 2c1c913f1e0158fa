pub mod DrawsLaws
pub mod FillLaws
pub mod FormsLaws
