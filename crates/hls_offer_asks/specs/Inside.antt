pub mod Hindering
pub mod Trying
