pub mod Inner
pub mod Lesson
pub mod Promise
pub mod Wishes
