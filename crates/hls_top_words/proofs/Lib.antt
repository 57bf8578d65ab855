pub mod Digits
pub mod Standing
pub mod Taken
pub mod Options
pub mod OneJob
pub mod Telling
pub mod Rows
pub mod Asking
