pub mod Schedules
pub mod Imports
pub mod Headline
pub mod Notes
pub mod Vouched
pub mod Merges
