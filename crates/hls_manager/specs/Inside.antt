pub mod Shifts
pub mod Holders
pub mod Told
pub mod Least
pub mod Ports
pub mod Heights
pub mod Loads
