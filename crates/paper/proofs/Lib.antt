pub mod PromiseLaws
pub mod RecordLaws
