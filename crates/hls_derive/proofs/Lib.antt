mod Appends
mod Options
pub mod Spaces
pub mod Fronts
pub mod Parses
pub mod Derivings
