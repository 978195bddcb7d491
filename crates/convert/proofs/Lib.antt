pub mod Parts
pub mod Counting
pub mod Comments
pub mod Moving
pub mod Answer
