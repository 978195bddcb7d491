pub mod Items
pub mod DayReady
