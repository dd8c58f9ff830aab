pub mod ValidLines
pub mod RequestsRead
