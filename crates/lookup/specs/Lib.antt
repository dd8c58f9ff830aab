pub mod Found
pub mod Greatest
pub mod Sought
pub mod Lookup
pub mod SoughtRows
pub mod Steps
pub mod AnySearch
