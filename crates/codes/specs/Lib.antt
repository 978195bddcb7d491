pub mod Number
pub mod Carried
pub mod Title
