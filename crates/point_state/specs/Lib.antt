pub mod Point
pub mod Few
