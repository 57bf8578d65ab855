pub mod Rows
pub mod Commands
pub mod Strips
pub mod Names
pub mod Drawing
pub mod Inside
