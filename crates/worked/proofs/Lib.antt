pub mod Worked
pub mod Reported
