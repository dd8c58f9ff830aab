pub mod Printed
pub mod NoRow
