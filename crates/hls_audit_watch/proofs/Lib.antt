pub mod Endings
pub mod Rings
pub mod Cutting
pub mod Periods
pub mod Carrying
pub mod Watching
pub mod Shorts
pub mod Overs
