pub mod Group
pub mod Cut
