pub mod Own
pub mod Folding
