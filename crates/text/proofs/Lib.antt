pub mod DecimalLaws
pub mod FirstByte
pub mod ScanClauses
pub mod TakenWritten
pub mod WrittenTaken
pub mod WrittenLaws
