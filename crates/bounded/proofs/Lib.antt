pub mod Step
pub mod Strict
pub mod Wrap
