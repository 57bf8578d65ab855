pub mod Offered
pub mod Candidates
