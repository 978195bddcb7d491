pub mod Answer
pub mod Sort
pub mod Begins
