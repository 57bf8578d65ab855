pub mod Store
pub mod Tallies
pub mod Turnovers
pub mod Inside
pub mod Changes
pub mod Told
