pub mod Says
pub mod Row
pub mod Days
pub mod Rule
pub mod Found
