pub mod Reported
pub mod Lists
