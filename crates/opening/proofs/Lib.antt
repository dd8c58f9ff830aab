pub mod OpeningStep
pub mod OpeningTests
