pub mod BatchLaws
pub mod Batches
pub mod Ends
pub mod Puttings
pub mod internal
