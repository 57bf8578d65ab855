pub mod Words
pub mod Rates
