pub mod Update
pub mod Runs
