pub mod Bounds
pub mod Carried
pub mod Nets
