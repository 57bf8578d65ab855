mod Further
mod Late
mod Windows
mod Blocks
mod Shares
