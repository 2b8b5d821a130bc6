mod Splitting
mod Stretches
mod Tokens
mod Parts
mod Ends
mod Edges
mod Entering
mod Plain
pub mod FilterLemmas
pub mod Alike
