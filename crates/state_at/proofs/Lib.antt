pub mod Walk
pub mod Meaning
pub mod Search
pub mod Point
pub mod Date
pub mod Numbers
