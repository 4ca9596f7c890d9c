-- `Theorems` has the theorems of boxes.
pub mod Theorems
