pub mod Sets
pub mod Rising
pub mod Putting
