pub mod Bodies
pub mod Spans
pub mod Sorts
pub mod Parts
pub mod Steps
