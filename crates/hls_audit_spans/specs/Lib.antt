pub mod Spans
pub mod Inside
