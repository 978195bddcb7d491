pub mod Joining
pub mod Filling
pub mod Returns
pub mod Within
