pub mod Letters
pub mod Entries
pub mod Counting
pub mod Plans
pub mod Posting
pub mod World
pub mod Calls
