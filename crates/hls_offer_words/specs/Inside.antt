pub mod Commands
pub mod Spellings
pub mod Shapes
pub mod Readings
