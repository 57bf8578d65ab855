mod Askings
mod Lines
mod Runs
mod Slices
mod Ways
