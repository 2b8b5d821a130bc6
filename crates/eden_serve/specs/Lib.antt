pub mod Agreeing
pub mod Changed
pub mod Endings
