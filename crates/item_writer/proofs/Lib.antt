pub mod Chain
pub mod Items
pub mod Joined
