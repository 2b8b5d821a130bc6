-- What only this crate's functions speak of.
pub mod Blocks
pub mod Carrying
pub mod There
pub mod Woven
