pub mod Commands
pub mod Shapes
