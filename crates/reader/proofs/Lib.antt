pub mod Places
pub mod MoreDigits
pub mod Numbers
pub mod FieldsSoFar
pub mod Headings
pub mod Lines
