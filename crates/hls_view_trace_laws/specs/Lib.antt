pub mod Held
pub mod Nesting
pub mod Json
pub mod Plain
