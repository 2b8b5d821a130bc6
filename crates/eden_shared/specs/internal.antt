-- Words that the code alone uses.
pub mod Steps
pub mod HeadSteps
pub mod Marks
pub mod Patience
pub mod Replayed
pub mod Walks
