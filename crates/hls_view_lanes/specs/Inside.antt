pub mod Kept
pub mod Paths
pub mod Present
pub mod Readings
pub mod Tallies
pub mod Telling
