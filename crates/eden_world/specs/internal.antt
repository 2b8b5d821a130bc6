-- Definitions that the code alone uses.
pub mod Stepped
pub mod Paid
pub mod Carrying
