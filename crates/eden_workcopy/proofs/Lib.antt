pub mod Works
pub mod Rerooted
pub mod Reverted
pub mod CarriedOver
pub mod CarriedWhole
pub mod FlatFiles
pub mod DirtyMarks
