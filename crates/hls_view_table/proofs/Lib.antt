pub mod Trims
pub mod Lines
pub mod Parts
pub mod Determined
