-- Definitions that only the matching uses.
pub mod Compiled
pub mod Sharing
pub mod Sameness
