pub mod Ballots
pub mod Fixing
pub mod Weights
