pub mod Questions
pub mod Moments
