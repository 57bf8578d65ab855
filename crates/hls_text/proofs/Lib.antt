pub mod LineLaws
pub mod TokenLaws
pub mod NumberLaws
pub mod FirstMarks
pub mod Marks
pub mod WordLaws
