pub mod SmallPlaces
pub mod Asked
pub mod Tests
pub mod Booked
