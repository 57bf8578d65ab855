pub mod Faults
pub mod Words
pub mod Reading
pub mod ReadingLines
pub mod Inside
