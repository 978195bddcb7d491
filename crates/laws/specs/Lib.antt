pub mod Lists
pub mod Tests
