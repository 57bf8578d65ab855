pub mod Steps
pub mod Ports
pub mod TickPaths
pub mod Rows
pub mod Accounted
mod Counting
mod RowTicks
mod StripTicks
mod StayTicks
