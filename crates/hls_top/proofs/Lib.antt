pub mod Promised
pub mod Answered
pub mod Cores
pub mod Outcomes
pub mod Answering
pub mod Readings
pub mod Audited
