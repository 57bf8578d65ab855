pub mod Found
pub mod Names
pub mod Placed
pub mod Behind
pub mod Written
pub mod Spans
pub mod Fitting
pub mod Told
