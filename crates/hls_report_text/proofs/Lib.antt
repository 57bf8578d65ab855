pub mod Writings
pub mod NameLaws
pub mod Contents
pub mod Marks
pub mod RefusalTexts
pub mod LineTexts
