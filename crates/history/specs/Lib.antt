pub mod Events
pub mod Histories
pub mod Facts
pub mod Promises
pub mod Examples
