pub mod Between
pub mod Strips
pub mod Pictures
