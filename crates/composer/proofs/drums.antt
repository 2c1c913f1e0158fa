pub mod BarsLaws
pub mod DrawsLaws
pub mod EarlyLaws
pub mod FairLaws
pub mod GroovesLaws
pub mod KitLaws
pub mod LateLaws
pub mod PlainLaws
