pub mod Tests
pub mod Chain
pub mod OneOf
