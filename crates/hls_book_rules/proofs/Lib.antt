pub mod Budgets
pub mod Tags
pub mod Places
pub mod NewBooks
pub mod TagOrder
pub mod Solutions
pub mod Stands
