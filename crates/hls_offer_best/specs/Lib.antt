pub mod Best
pub mod Inside
pub mod Reservations
