pub mod OneAnswer
pub mod Promised
pub mod Meaning
pub mod Return
pub mod ShutOut
pub mod FirstGroup
pub mod Engines
