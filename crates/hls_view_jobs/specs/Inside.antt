pub mod Sound
pub mod Sources
pub mod Running
