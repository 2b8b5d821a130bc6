-- Definitions that the code alone uses.
pub mod Masks
