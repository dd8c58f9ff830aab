pub mod Steps
pub mod LinesLeft
pub mod ShortLists
pub mod TradesLeft
pub mod WritingAnswers
