pub mod Strict
pub mod Kind
pub mod Wrap
