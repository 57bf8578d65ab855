pub mod ShareSizes
pub mod TurnSizes
pub mod Stepping
pub mod Lendings
pub mod Failing
pub mod Carrying
