-- Words that only the implementation uses.
pub mod Parts
pub mod Searched
