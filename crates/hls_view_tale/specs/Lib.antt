pub mod Places
pub mod Standings
pub mod Hierarchies
pub mod Following
pub mod Inside
