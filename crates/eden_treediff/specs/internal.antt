-- Definitions that the code alone uses.
pub mod Columns
pub mod Merging
pub mod Pairs
pub mod Settled
pub mod Walks
