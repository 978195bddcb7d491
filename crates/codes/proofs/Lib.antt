pub mod Digits
pub mod Numbers
pub mod Laws
pub mod Carried
