pub mod HandledIn
pub mod OnAllTables
pub mod StepTests
pub mod Terms
pub mod StepOrder
