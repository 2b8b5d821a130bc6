-- Definitions that the code alone uses.
pub mod Applied
pub mod Describing
pub mod Refusals
pub mod Rows
