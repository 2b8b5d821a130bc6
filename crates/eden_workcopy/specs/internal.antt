-- What only this crate's functions speak of.
pub mod Agreements
pub mod Carrying
