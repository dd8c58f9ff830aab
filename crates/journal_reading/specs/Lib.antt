pub mod RequestRead
