mod Lists
mod Lasting
mod Swept
mod Rows
mod Opened
mod Ends
mod Renewed
mod Fresh
mod Noted
mod Follows
mod Moves
pub mod Flags
pub mod Ticked
mod Turned
mod Begins
mod Told
mod Worded
mod Under
mod Alone
