pub mod Derivation
pub mod Answers
pub mod Derives
pub mod DerivationText
pub mod Inside
