pub mod Cases
pub mod Lookable
pub mod Answers
