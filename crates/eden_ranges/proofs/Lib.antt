mod Lists
mod Said
mod Heads
mod OneAPath
mod Merged
pub mod Only
pub mod Columns
mod Pairs
mod TurnedRound
pub mod Newest
mod Ends
mod Numbered
mod Lent
mod Along
mod Named
mod SinceWorld
pub mod Bridge
pub mod WayBack
