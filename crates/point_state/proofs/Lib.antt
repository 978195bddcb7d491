pub mod Covered
pub mod State
pub mod Columns
pub mod FewLists
