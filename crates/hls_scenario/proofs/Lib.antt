pub mod Loads
pub mod CanonicalPrinting
pub mod CanonicalLines
pub mod CanonicalWords
pub mod CanonicalForms
pub mod CanonicalLaws
