-- What the implementation uses alone.
pub mod Fields
pub mod Fronts
pub mod Grammar
pub mod Laws
pub mod Loads
