pub mod Followers
pub mod Causes
pub mod internal
