pub mod Margin
pub mod Mirrored
