pub mod Closed
pub mod Lookup
pub mod ByTrees
pub mod Rising
pub mod Fitting
pub mod Clashes
pub mod Maps
pub mod Blobs
pub mod CommitLaws
pub mod CommitTexts
pub mod Naming
pub mod FilesOf
pub mod Grown
pub mod Importing
pub mod Tables
mod Putting
pub mod TreeOf
pub mod WalkSteps
pub mod Gathering
mod Visiting
pub mod Legal
mod Below
mod Refusals
mod Noted
mod Searched
mod Judging
mod Judged
