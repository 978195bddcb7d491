pub mod Telling
pub mod Items
pub mod Rows
pub mod Rules
pub mod Meaning
pub mod Bodies
