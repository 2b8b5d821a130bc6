mod Listed
mod Tabulating
mod SideLaws
mod Marking
mod Walk
mod CarryingLaws
