pub mod Example
pub mod Moves
pub mod Reserved
pub mod Shared
pub mod Joined
pub mod Crowded
pub mod Apart
pub mod Paced
