pub mod Pages
pub mod Sorts
