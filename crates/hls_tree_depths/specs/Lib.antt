pub mod Subtrees
pub mod Paths
pub mod Inside
