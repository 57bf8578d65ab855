pub mod Said
pub mod Joined
pub mod Wrong
pub mod Withheld
pub mod Smallest
pub mod Refused
pub mod Settled
