pub mod Exchanging
pub mod Following
pub mod Leading
