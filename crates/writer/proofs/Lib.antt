pub mod Bytes
pub mod Copying
