mod Alike
mod Work
mod Level
mod Delays
