pub mod Going
pub mod Naming
