pub mod Trying
pub mod Budgets
pub mod Waiting
