pub mod Store
pub mod Told
pub mod Ways
pub mod Kept
pub mod Schedule
pub mod Inside
