pub mod Filling
pub mod Idle
