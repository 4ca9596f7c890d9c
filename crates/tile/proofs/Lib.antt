-- `Theorems` has the theorems of tiles.
pub mod Theorems
