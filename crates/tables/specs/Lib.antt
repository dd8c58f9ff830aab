pub mod NewRows
pub mod Parent
