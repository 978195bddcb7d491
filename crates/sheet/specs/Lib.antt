pub mod End
pub mod Head
pub mod Rules
pub mod Begin
pub mod Parts
