pub mod Rows
pub mod Facts
