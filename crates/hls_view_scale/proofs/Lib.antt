pub mod Behind
pub mod NotLess
pub mod Parts
