pub mod Standing
pub mod Reported
pub mod Listed
pub mod Lists
