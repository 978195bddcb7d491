pub mod Covers
pub mod Draw
pub mod Kinds
pub mod Listing
