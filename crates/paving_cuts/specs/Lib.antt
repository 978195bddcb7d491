pub mod Cuts
pub mod Rules
