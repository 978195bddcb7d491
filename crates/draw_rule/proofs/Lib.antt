pub mod Passing
pub mod Level
pub mod Finding
pub mod Reaching
pub mod Covering
pub mod Meaning
