pub mod Spelling
pub mod BodyLengths
pub mod Filters
pub mod Replying
pub mod Alike
