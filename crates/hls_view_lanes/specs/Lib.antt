pub mod Likeness
pub mod Rows
pub mod Facts
pub mod Standing
pub mod Lanes
pub mod Leaves
pub mod Inside
