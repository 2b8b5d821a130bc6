pub mod Differing
pub mod Finding
pub mod Growing
pub mod KindLemmas
pub mod Masks
pub mod RowLaws
pub mod Words
