pub mod Items
pub mod Order
pub mod Rows
pub mod Meaning
