pub mod Few
pub mod Cuts
pub mod Rows
pub mod Boxes
pub mod Lists
pub mod Stepping
pub mod Groups
