pub mod Seats
pub mod Marks
pub mod Carried
