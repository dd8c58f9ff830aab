pub mod RequestBooked
