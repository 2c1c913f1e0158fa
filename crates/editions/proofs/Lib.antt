pub mod ConvertLaws
pub mod PromiseLaws
