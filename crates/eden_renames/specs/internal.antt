-- Definitions that the code alone uses.
pub mod Listed
pub mod Regions
pub mod Shifted
pub mod Told
pub mod Unsettling
