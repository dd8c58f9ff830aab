pub mod Decimal
pub mod Fields
pub mod Scan
pub mod Written
