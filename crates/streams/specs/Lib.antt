pub mod Mix
pub mod Unmix
pub mod Stream
pub mod Stage
pub mod Draw
pub mod Cases
