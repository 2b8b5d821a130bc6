pub mod Counting
pub mod internal
