pub mod Runs
pub mod Waits
pub mod Shares
pub mod Reached
