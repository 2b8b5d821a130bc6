pub mod Mounts
pub mod Snapshots
pub mod Ranges
pub mod internal
