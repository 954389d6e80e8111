pub mod Slots
pub mod Journal
pub mod Facts
pub mod Laws
