pub mod NumberedRows
pub mod ProcessTable
