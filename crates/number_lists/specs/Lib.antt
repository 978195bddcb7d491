pub mod Numbered
pub mod Short
