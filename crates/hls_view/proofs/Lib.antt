pub mod Tales
pub mod Outcomes
pub mod Answering
pub mod Promised
pub mod Pictures
mod Broken
mod Places
mod Saying
mod Kept
mod Shown
