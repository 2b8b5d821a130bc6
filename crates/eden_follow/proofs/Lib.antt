pub mod Grouped
pub mod Judged
pub mod Marked
pub mod RowLists
pub mod Stepping
