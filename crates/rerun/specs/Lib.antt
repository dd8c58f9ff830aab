pub mod Journal
pub mod LinesBooked
pub mod LinesLeft
pub mod Rerun
pub mod Sample
