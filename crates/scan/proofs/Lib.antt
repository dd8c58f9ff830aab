pub mod ReadBack
pub mod RowsScan
pub mod DayScan
