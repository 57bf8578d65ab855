pub mod Flame
pub mod Commands
pub mod Inside
