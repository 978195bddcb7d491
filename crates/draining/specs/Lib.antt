pub mod Span
pub mod Rule
pub mod Table
