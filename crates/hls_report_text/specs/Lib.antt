pub mod Content
pub mod ReportText
pub mod WellFormed
pub mod Inside
