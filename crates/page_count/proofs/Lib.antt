pub mod Counting
pub mod Reading
pub mod Rules
pub mod Sorts
pub mod Ready
