pub mod Numbered
pub mod Elements
pub mod Places
pub mod Marks
