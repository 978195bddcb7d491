pub mod Listed
pub mod Growing
pub mod Boxes
pub mod Groups
pub mod Unmarked
