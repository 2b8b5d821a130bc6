pub mod Changings
pub mod Openings
pub mod OwnLabels
pub mod internal
