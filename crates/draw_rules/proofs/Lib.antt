pub mod Settling
pub mod Tables
pub mod Stepping
pub mod Going
pub mod Places
pub mod Told
