pub mod Items
pub mod Rows
pub mod Laid
