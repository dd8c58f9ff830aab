pub mod SoundBooks
pub mod SoundTables
pub mod RowsAnswered
