pub mod Cells
pub mod Margins
pub mod Trees
pub mod Jobs
