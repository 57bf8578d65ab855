pub mod Commands
pub mod Front
pub mod Style
pub mod Axis
