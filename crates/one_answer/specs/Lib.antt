pub mod Promise
pub mod Meaning
pub mod ShutOut
pub mod Engines
