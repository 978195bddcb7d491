pub mod Numbering
pub mod OneMore
pub mod InUse
pub mod There
