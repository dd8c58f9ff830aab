pub mod Negated
pub mod BySide
