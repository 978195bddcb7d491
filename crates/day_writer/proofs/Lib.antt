pub mod Entries
pub mod Laid
pub mod Counted
