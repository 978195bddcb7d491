pub mod Written
pub mod Cutting
pub mod Climbing
pub mod Rows
pub mod ByRules
pub mod Boxes
