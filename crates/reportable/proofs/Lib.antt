pub mod RowPairs
pub mod Listing
pub mod Answers
