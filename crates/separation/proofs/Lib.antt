pub mod PartsLeft
pub mod PartRows
