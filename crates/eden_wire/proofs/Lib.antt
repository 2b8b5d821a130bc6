mod Loops
mod Numbers
mod FormatLaws
mod ListLaws
mod TagLaws
mod MessageLaws
mod Same
mod Whole
mod WholeChanges
pub mod BodyLaws
mod QuestionLaws
mod Written
mod StatLaws
mod AskedLaws
mod DoLaws
mod DoLengths
mod DoneLaws
pub mod AnswerLaws
mod Lists
mod Lengths
