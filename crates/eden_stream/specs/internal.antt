-- What the implementation uses alone.
pub mod LineLaws
pub mod LineSteps
pub mod Steps
pub mod FrameLaws
pub mod Fronts
