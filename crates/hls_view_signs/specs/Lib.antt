pub mod Columns
pub mod Happenings
pub mod Fates
pub mod Signs
pub mod Inside
