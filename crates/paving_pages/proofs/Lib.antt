pub mod Writing
pub mod Appending
pub mod Enough
pub mod Rules
