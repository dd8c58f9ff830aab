pub mod Journalled
pub mod LineNumbers
