pub mod Left
pub mod Answers
pub mod ToWrite
