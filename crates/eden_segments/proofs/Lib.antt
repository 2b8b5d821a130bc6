pub mod Distinct
mod Stored
