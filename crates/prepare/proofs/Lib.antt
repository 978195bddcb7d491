pub mod Reading
pub mod Judging
pub mod ToDraw
