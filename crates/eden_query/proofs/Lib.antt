mod ReplyFits
mod Telling
mod Asking
mod Spelled
mod TellingOver
