pub mod Stays
pub mod Derived
pub mod Activities
pub mod Scenes
pub mod Inside
