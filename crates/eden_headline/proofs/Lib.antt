mod Keeping
mod Telling
mod Mirroring
mod Scheduling
mod Importing
mod Living
mod Merging
pub mod Noting
pub mod Vouching
