pub mod Marks
pub mod Overlaps
