pub mod Counters
pub mod Draws
pub mod Forms
pub mod Kicks
pub mod Scores
pub mod Songs
pub mod Stages
