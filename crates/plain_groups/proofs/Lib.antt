pub mod Marked
pub mod Good
pub mod Emptying
