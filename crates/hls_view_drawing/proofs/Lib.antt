pub mod Ends
pub mod Spelled
pub mod Steps
pub mod Drawings
