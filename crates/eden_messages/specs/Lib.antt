pub mod Spells
pub mod Replies
pub mod Mirrors
