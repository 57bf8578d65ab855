mod Plain
mod Places
mod Admissions
pub mod Ranged
mod Finds
mod Admits
mod Loads
mod LoadSteps
pub mod Outcomes
mod Offers
mod LeastLaws
mod PortLaws
mod HeightLaws
mod LoadRefusals
mod LoadTold
mod LoadEnds
mod KitLaws
mod LoadFormed
pub mod Searches
mod Shifts
mod Aims
mod Mistakes
mod Options
mod Askings
mod ThreadMoves
pub mod Rederivals
pub mod Versions
mod NamedNodes
mod ShiftSteps
mod ShiftDues
mod Shifted
mod Asked
mod Haves
