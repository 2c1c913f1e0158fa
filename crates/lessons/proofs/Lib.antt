pub mod CheckLaws
pub mod PromiseLaws
pub mod SearchLaws
pub mod SeedSpanLaws
pub mod SuitLaws
