pub mod Requests
pub mod Offers
pub mod Needs
pub mod Inside
