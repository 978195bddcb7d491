pub mod Day
pub mod Time
pub mod State
