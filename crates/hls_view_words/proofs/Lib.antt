pub mod Taken
pub mod OneView
mod Digits
mod Heading
mod TakenSpans
mod TwoApart
