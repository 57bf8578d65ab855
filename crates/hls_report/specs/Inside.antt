pub mod Rests
pub mod HeadLines
pub mod AccountLines
pub mod CommandLines
pub mod RunLines
pub mod Paths
pub mod Digits
