pub mod Measures
pub mod Columns
pub mod Heights
pub mod Bars
