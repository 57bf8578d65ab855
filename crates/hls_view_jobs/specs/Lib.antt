pub mod Words
pub mod Bounds
pub mod Jobs
pub mod Threads
pub mod Summaries
pub mod Promises
pub mod Inside
