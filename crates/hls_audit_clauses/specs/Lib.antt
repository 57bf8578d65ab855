pub mod Names
pub mod Misplaced
pub mod Ways
pub mod Dues
pub mod Clauses
pub mod Kept
pub mod Reasons
pub mod Descents
