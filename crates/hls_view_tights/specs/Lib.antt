pub mod Surpluses
pub mod Tights
pub mod Inside
