pub mod Lines
pub mod Tokens
pub mod Numbers
pub mod Cuts
pub mod Options
pub mod Decimals
