pub mod BassLaws
pub mod LineLaws
pub mod PlainLaws
pub mod PromiseLaws
pub mod RhythmLaws
