pub mod Covering
pub mod Appending
pub mod Drawing
pub mod Same
pub mod Counting
pub mod Going
pub mod Told
