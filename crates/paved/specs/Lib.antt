pub mod Paved
