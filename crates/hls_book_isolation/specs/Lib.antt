pub mod Claims
pub mod Isolation
pub mod Demand
