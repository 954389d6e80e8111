pub mod Crossing
pub mod Listings
pub mod Fixing
pub mod Crosses
