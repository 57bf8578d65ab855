pub mod Quotients
pub mod Order
pub mod Ends
pub mod Sighted
pub mod RowLaws
