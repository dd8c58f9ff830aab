pub mod Became
pub mod LineReplayed
pub mod Unsound
