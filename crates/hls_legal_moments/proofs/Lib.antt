pub mod Views
pub mod Meeting
