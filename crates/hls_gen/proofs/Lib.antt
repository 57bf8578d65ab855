mod Shares
mod Rounds
mod Within
