pub mod LaterSteps
pub mod Restated
pub mod Ready
