pub mod Promised
mod Reseated
mod SeatLaws
mod Stacks
mod Comings
mod Followed
mod Unseated
