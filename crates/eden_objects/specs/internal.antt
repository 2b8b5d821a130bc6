-- Definitions that the code alone uses.
pub mod Below
pub mod Earlier
pub mod Kept
pub mod Passed
pub mod Placed
pub mod Roots
pub mod Visits
pub mod VisitLaws
