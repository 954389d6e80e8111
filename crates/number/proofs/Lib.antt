mod Digits
pub mod Laws
