pub mod Ids
pub mod Lines
pub mod Sizes
pub mod Types
pub mod Headers
pub mod Fronts
pub mod Fillings
pub mod Endings
