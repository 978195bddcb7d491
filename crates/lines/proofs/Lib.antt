pub mod Carried
pub mod Short
pub mod Fitting
pub mod Printable
