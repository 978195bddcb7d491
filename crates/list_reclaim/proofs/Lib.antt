pub mod Marking
pub mod Moving
pub mod Reclaiming
