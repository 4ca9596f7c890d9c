pub mod Reader
pub mod Left
pub mod Steps
pub mod Theorems
