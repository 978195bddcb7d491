pub mod Folding
pub mod Kept
