pub mod Pending
pub mod Counting
pub mod Unlisted
pub mod Delivering
