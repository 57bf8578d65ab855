pub mod Came
pub mod Members
pub mod Pending
pub mod Told
