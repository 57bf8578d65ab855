pub mod Found
pub mod Heard
pub mod Moments
pub mod Nodes
pub mod Notes
pub mod Scenes
pub mod Sources
pub mod Words
