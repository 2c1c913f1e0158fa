pub mod MixLaws
pub mod UnmixLaws
pub mod StreamLaws
pub mod StageLaws
pub mod DrawLaws
pub mod Cases
