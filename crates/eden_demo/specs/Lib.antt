pub mod Followings
pub mod Verdicts
