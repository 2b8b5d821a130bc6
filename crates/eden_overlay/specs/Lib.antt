pub mod Carried
pub mod Layers
pub mod Listings
pub mod Places
pub mod internal
