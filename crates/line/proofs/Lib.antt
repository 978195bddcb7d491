pub mod Prefix
pub mod Steps
pub mod Answers
