mod Cuts
pub mod Reading
pub mod Fuel
pub mod Slashes
mod Keys
pub mod Noting
mod Searching
mod Naming
mod Placing
pub mod NumberLemmas
mod Stepping
