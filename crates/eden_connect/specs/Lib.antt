pub mod Connections
pub mod Reports
pub mod Rounds
pub mod internal
