pub mod Meanings
pub mod Reverts
pub mod internal
