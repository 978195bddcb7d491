pub mod Part
pub mod Rule
