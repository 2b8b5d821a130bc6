pub mod Sameness
pub mod Paths
pub mod FileMaps
pub mod Hex
pub mod Naming
pub mod Columns
pub mod Texts
pub mod Fronts
