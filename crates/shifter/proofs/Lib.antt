pub mod RowsFilled
pub mod Placed
pub mod Written
