pub mod Lately
pub mod Counts
pub mod Cuts
pub mod Periods
pub mod Carried
pub mod Watching
