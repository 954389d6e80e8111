mod Fills
pub mod Replay
