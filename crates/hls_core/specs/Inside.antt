pub mod Ways
pub mod Outcomes
pub mod Elapses
pub mod Sparing
pub mod Tellings
