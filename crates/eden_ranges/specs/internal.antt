-- Definitions that the code alone uses.
pub mod Wanted
pub mod Mentions
pub mod Heads
pub mod Gathering
pub mod Pairs
