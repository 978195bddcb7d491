pub mod Overlap
