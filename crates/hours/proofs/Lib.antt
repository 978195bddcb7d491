pub mod Checked
pub mod Lent
pub mod Entries
