pub mod Parts
pub mod Leading
pub mod Shared
pub mod Ancestor
pub mod Theorems
