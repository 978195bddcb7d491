pub mod Part
pub mod Opening
