pub mod Merge
pub mod Gives
pub mod Theorems
