pub mod Answers
pub mod Commands
pub mod Raws
pub mod Settled
pub mod Servers
pub mod Servings
pub mod internal
