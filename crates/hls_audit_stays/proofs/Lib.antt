pub mod Lists
pub mod Names
pub mod NoteLaws
pub mod SeatLaws
pub mod BelowLaws
pub mod CloseLaws
pub mod CarryLaws
