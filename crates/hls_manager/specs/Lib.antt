pub mod Finds
pub mod Faults
pub mod Seats
pub mod Offers
pub mod Outcomes
pub mod Rederived
pub mod Inside
