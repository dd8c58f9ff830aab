pub mod Answering
pub mod OnAllTables
pub mod StepVerdict
pub mod StepBooked
pub mod StepOrder
