pub mod Least
pub mod Audits
pub mod Inside
