pub mod Row
pub mod Chain
