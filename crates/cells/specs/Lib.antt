pub mod Lawful
pub mod SoundTable
pub mod Fitting
