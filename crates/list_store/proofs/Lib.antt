pub mod Counting
pub mod Listing
pub mod Making
pub mod Walking
pub mod OneBox
pub mod Drawing
