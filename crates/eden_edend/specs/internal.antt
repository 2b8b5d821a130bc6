-- What the implementation uses alone.
pub mod BoundMaps
pub mod ChangeStory
pub mod Firsts
pub mod SessionScript
pub mod Standing
