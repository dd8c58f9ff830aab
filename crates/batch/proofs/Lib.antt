pub mod BookedSoFar
pub mod Handled
