pub mod Jobs
pub mod Runs
pub mod Reports
pub mod Kept
