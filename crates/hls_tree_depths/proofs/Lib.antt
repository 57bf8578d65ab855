pub mod Sums
pub mod Chains
pub mod Heights
pub mod Elsewhere
pub mod Subtrees
pub mod Asked
