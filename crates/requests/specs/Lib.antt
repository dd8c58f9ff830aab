pub mod AbsentRow
pub mod KnownPosition
pub mod KnownRecord
pub mod AdjustReady
