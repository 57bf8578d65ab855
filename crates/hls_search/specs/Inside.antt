pub mod Chains
pub mod Parts
pub mod Places
pub mod Found
