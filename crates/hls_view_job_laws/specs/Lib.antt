pub mod Jobs
pub mod Lives
pub mod Lines
pub mod Clauses
