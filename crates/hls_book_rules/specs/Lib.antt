pub mod Budgets
pub mod Tags
pub mod Places
pub mod NewBooks
pub mod Stands
