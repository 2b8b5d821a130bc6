pub mod BelowLemmas
pub mod Bools
pub mod FileMapLemmas
pub mod ByteOrder
pub mod TreeQuestions
pub mod TreeMaps
mod Calls
mod HexTexts
pub mod ColumnLemmas
pub mod Sifted
pub mod Tables
pub mod Texts
pub mod Fronts
pub mod Members
pub mod TextLemmas
pub mod Alike
