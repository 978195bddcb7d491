pub mod Found
pub mod Boxes
