-- `Theorems` has the theorems of these functions.
pub mod Theorems
