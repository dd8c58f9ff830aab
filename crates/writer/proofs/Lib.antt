pub mod LineWritten
pub mod NumberTexts
pub mod NumbersWritten
pub mod Widths
