-- `Theorems` has the theorems of grounds; `FloorLemmas`, `LargestLemmas` and `Cells` what they stand on.
pub mod Cells
pub mod FloorLemmas
pub mod LargestLemmas
pub mod Theorems
