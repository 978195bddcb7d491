pub mod Dated
pub mod Days
pub mod Next
