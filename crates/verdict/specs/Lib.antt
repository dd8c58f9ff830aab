pub mod Verdict
pub mod HandledSoundly
pub mod MovedReady
pub mod Moving
