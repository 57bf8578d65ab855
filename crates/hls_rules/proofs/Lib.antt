pub mod Sizes
pub mod BestOnes
pub mod LongerOnes
pub mod Equal
pub mod Answering
pub mod Decided
pub mod Once
pub mod Eleven
