pub mod Tales
pub mod Ways
pub mod Shares
pub mod Reading
