-- Definitions that only the code of a mirror uses.
pub mod Listed
pub mod Pending
pub mod Rounds
