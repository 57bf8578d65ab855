pub mod ScheduleLaws
pub mod EarlyLaws
