-- What only the implementation uses.
pub mod Segments
