pub mod Replaced
pub mod Amounts
pub mod Adds
