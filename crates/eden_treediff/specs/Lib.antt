pub mod Merges
pub mod Laws
pub mod internal
