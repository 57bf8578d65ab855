pub mod Paths
pub mod Readings
pub mod Accounts
