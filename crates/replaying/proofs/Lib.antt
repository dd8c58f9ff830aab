pub mod AnswerFrom
pub mod AtOnce
pub mod LineLength
pub mod LinesReplayed
pub mod ReplayedSoFar
pub mod FirstLine
