pub mod Fairness
pub mod Work
pub mod Delays
