pub mod Average
pub mod Averageable
pub mod Order
pub mod Rounded
