pub mod Reading
pub mod Walking
pub mod Folding
pub mod Brief
