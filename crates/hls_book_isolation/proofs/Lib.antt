mod Claims
mod Spans
mod Spares
mod Demand
mod Sharp
