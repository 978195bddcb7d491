pub mod Bytes
pub mod FieldAt
pub mod Taking
pub mod Wide
