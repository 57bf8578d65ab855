pub mod Ways
pub mod Playing
pub mod Winning
pub mod Replaying
pub mod Passing
