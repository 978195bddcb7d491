pub mod Tale
pub mod Shows
pub mod Row
pub mod Rule
