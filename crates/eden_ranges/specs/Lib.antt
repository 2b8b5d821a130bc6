pub mod Histories
pub mod Gathered
pub mod Since
pub mod Expanded
pub mod WorldRanges
pub mod Laws
pub mod internal
