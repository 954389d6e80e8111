pub mod Text
pub mod Rows
pub mod Seen
pub mod Ahead
