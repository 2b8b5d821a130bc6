-- Definitions that only the code of vouching uses.
pub mod Rows
pub mod Judged
pub mod Orders
