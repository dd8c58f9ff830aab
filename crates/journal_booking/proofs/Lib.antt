pub mod Booked
pub mod UnsoundPositions
