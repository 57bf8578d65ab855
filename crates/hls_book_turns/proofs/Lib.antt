mod Waits
mod Shares
mod Reached
