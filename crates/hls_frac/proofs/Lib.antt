pub mod Lowest
pub mod Order
pub mod Quotients
pub mod Limits
