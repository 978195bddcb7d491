pub mod DayReturns
pub mod ClassReturns
pub mod Flat
pub mod Own
pub mod Room
