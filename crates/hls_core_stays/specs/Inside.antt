pub mod Rows
pub mod Steps
pub mod Accounts
pub mod Renewals
