pub mod Cost
pub mod Inside
pub mod Lines
