mod Ending
mod Judging
pub mod Kept
mod LinesEnding
