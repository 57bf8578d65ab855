pub mod Watched
pub mod First
pub mod Shortages
pub mod Inside
