mod EntryLemmas
pub mod EscapeLemmas
mod OwnLabels
mod RowLemmas
pub mod WordLemmas
