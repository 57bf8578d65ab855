pub mod Standings
pub mod Sights
