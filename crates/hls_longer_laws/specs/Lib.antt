pub mod Implies
pub mod Least
pub mod Shares
