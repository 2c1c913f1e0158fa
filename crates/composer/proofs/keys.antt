pub mod DrawLaws
pub mod NoteLaws
pub mod PlainLaws
pub mod ShellLaws
pub mod StrokeLaws
