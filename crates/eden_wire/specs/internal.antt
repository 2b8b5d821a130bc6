-- Definitions that the code alone uses.
pub mod Listing
pub mod Steps
