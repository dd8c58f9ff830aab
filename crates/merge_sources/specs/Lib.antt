pub mod Sources
pub mod Pairs
pub mod Located
