pub mod Emission
pub mod Emits
