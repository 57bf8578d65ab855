pub mod Counts
pub mod Halves
pub mod SpanLaws
pub mod Growing
pub mod Answering
pub mod Beyond
pub mod Marks
