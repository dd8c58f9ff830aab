pub mod Examples
pub mod Others
pub mod Batches
pub mod GiveUps
pub mod Reporting
