pub mod Outcome
pub mod BookedSoundly
