pub mod PositionRange
pub mod OnSound
pub mod AbsentRow
pub mod Adjusting
pub mod StatusRefusal
