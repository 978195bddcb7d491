pub mod Told
pub mod Carrying
pub mod Ready
pub mod Numbered
pub mod Paging
