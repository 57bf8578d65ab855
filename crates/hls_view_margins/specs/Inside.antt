pub mod Sooner
pub mod Runs
pub mod Pieces
pub mod Tests
pub mod Worst
pub mod Windows
pub mod Roomy
pub mod Listed
