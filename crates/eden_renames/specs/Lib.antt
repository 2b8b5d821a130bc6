pub mod Renames
pub mod Sources
pub mod internal
